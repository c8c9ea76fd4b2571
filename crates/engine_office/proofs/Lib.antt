pub mod RoomLemmas
pub mod SendingLemmas
