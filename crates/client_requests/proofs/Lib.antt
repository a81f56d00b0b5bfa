mod Rooms
mod Short
