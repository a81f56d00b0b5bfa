pub mod PlayedEvents
