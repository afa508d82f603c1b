mod Fields
mod Numbers
mod Values
mod Times
mod Messages
mod Written
mod Nodes
mod Files
