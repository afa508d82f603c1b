mod Kept
mod Reading
mod Trailing
mod RoundTrips
mod PartReads
mod Appended
