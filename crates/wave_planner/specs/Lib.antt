-- the waves of a list of units
pub mod Waves
-- why there are none
pub mod Ends
-- how one wave is filled
pub mod Filling
-- requests that are all granted, one after the other
pub mod Granted
-- the text of waves, and the crew that it says
pub mod WavesText
