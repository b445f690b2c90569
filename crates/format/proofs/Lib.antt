-- What format's stores make of the card, and its answers.
pub mod Laws
