-- What a reader that is fed in pieces gives, byte by byte.
mod Stepping
mod Feeding
mod Joining
