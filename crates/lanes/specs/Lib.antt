pub mod LanesLaws
