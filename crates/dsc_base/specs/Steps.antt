pub mod Uleb
