pub mod WhyNot
