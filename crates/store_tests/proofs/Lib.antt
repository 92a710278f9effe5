mod Mades
mod Reading
