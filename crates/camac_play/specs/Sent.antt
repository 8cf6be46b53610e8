-- What is sent to two writers, byte by byte in one order.
use Rattle.std.specs.Prelude.{◌≡◌, ℕ, ◌<◌, List, [], ◌∷◌, ◌++◌, length, Option}
use Rattle.std.specs.Io.KnownBytes.{Appends}

-- a byte for the listing, or for the event file
pub data Sent : Type 0 where
  listed : ℕ → Sent
  recorded : ℕ → Sent

-- a text for the listing
abbrev pub to_listing : List ℕ → List Sent
to_listing [] = []
to_listing (b ∷ text) = listed b ∷ to_listing text

-- a text for the event file
abbrev pub to_events : List ℕ → List Sent
to_events [] = []
to_events (b ∷ text) = recorded b ∷ to_events text

-- what the listing gets
abbrev pub listing_of : List Sent → List ℕ
listing_of [] = []
listing_of (listed b ∷ sent) = b ∷ listing_of sent
listing_of (recorded b ∷ sent) = listing_of sent

-- what the event file gets
abbrev pub events_of : List Sent → List ℕ
events_of [] = []
events_of (listed b ∷ sent) = events_of sent
events_of (recorded b ∷ sent) = b ∷ events_of sent

-- what the two writers hold, where that is known
pub record Outputs : Type 0 where
  pub listing : Option (List ℕ)
  pub events : Option (List ℕ)

-- each writer has got its part
pub record Sends (old new : Outputs) (sent : List Sent) : Type 0 where
  pub listing : Appends old.listing new.listing (listing_of sent)
  pub events : Appends old.events new.events (events_of sent)

-- They have got a prefix of it, which lacks at least its last byte: what comes after a byte that one writer did not take
-- has gone to neither.
abbrev pub SendsPrefix : Outputs → Outputs → List Sent → Type 0
SendsPrefix old new sent = (prefix rest : List Sent) × (sent ≡ prefix ++ rest) × (0 < length rest) × Sends old new prefix

-- They have got all of the first, and of what follows it in the whole a part, which lacks at least its last byte.
abbrev pub SendsLastPart : Outputs → Outputs → (first whole : List Sent) → Type 0
SendsLastPart old new first whole = (part rest : List Sent) × (whole ≡ first ++ (part ++ rest)) × (0 < length rest) × Sends old new (first ++ part)
