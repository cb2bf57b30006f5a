mod Readings
mod Steadiness
mod Watched
mod Rows
mod Sound
mod Steps
mod Whole
mod Loosely
