mod Alone
mod Asking
mod Attempted
mod Beginnings
mod NetworkBeginnings
