pub mod NoBlankEnd
