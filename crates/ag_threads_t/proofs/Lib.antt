mod Pages
mod Logs
mod Scripts
