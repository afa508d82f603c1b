mod Collecting
mod Places
mod Spanning
mod Written
mod Blocks
