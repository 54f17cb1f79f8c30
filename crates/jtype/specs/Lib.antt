pub mod OneType
