pub mod RefusalsTold
pub mod NoBlankEnd
