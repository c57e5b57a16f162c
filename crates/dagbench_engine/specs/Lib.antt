pub mod Arguments
pub mod Endings
pub mod Documents
pub mod Transcripts
pub mod Plans
pub mod Serving
pub mod Progress
pub mod Ends
