mod Blaming
mod Filling
mod Finding
mod Formats
mod Grouping
mod Only
mod Taking
