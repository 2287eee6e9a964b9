pub mod KindFacts
