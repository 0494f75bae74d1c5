pub mod NobodyLeft
