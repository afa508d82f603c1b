mod Totals
mod Parts
mod Lengths
mod Children
mod Walks
mod Storing
