mod Buffers
mod Pieces
