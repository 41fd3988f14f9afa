-- What a listener makes of a frame, read and read back.
mod Said
