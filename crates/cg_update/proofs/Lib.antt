pub mod Budgets
pub mod Rows
