mod Behind
mod Refused
