mod Compared
mod Refused
