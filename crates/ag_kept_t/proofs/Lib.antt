mod Ends
mod Written
