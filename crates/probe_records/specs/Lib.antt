pub mod RecordsProbes
