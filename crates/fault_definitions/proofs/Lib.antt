pub mod CutLaws
pub mod CutLists
pub mod StepLaws
pub mod MinimalCuts
pub mod RankLaws
pub mod ReadingLaws
