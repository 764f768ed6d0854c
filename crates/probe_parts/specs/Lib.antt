pub mod PartsProbes
