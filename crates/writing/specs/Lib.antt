pub mod Checks
pub mod AcceptedStudy
pub mod CutLaws
pub mod StudyFields
pub mod ReadBack
pub mod ReadStudy
pub mod WrittenAgain
pub mod Theorems
