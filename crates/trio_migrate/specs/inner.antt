pub mod OldFault
