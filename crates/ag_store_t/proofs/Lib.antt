mod Logs
mod Redone
