pub mod RenamedNets
