-- The readers of whole inputs: the channel first, and then a turn of each loop.
mod Wholes
