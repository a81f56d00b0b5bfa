pub mod LastPlaces
