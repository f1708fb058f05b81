pub mod History
pub mod SoundFile
