pub mod Numbers
pub mod HeadReads
pub mod HeadLaws
pub mod HeadLengths
pub mod CountLaws
pub mod OneAnswer
pub mod DefectKinds
