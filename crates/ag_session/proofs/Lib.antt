pub mod NeverFall
