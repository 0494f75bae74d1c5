pub mod PackedCases
