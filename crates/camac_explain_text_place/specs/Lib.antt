pub mod Before
pub mod Expected
pub mod Place
