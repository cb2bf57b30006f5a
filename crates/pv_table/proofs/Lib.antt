pub mod PartsWithin
mod Trimming
mod UriPlaces
