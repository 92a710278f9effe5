-- labels in quotes, and what they show
pub mod Labels
-- the text of a picture
pub mod PictureText
