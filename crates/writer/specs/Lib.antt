pub mod Pages
pub mod Runs
pub mod Filled
pub mod Measuring
pub mod Walking
