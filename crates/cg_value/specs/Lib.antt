pub mod Fits
pub mod Foreign
pub mod Forms
pub mod NoForeign
pub mod Printed
pub mod Values
