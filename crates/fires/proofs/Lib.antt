pub mod GasFaults
