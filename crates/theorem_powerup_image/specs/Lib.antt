-- Request Nine: "Images are equal too."
pub mod ImagesStay
