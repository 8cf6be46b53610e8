-- What is known of the files of the system, and how EVENTS is opened.
use Rattle.std.specs.Prelude.{◌≡◌, ◌⊎◌, ◌||◌, ◌<◌, ℕ, Bool, true, false, List, Option, Some, None, Result, Ok, Err, nat_eq, bit_and}
use Rattle.std.specs.List.{starts_with}
use Rattle.std.specs.Fs.{IsFile, file_type, metadata_len, metadata_mode, new_options, with_create, with_write}
use Rattle.std.specs.declared.fs.options.OpenOptions.{OpenOptions}
use Rattle.std.specs.declared.fs.attrs.Metadata.{Metadata}
use Rattle.camac_event.specs.Spelling.{header}
use Rattle.camac_event.specs.declared.event.Version.TheVariants.{One, Two}
use Rattle.camac_tool_host.specs.declared.host.Earlier.{Earlier}
use Rattle.camac_tool_host.specs.declared.host.Earlier.TheVariants.{Emptied, Refused}
use Rattle.camac_tool_host.specs.declared.files.Input.{Input}
use Rattle.camac_tool_host.specs.declared.files.Input.TheVariants.{Standard, File}

-- what the reader in an input has left
abbrev pub left_in : {S F : Type 0} → (S → Option (List ℕ)) → (F → Option (List ℕ)) → Input S F → Option (List ℕ)
left_in standard file (Standard reader) = standard reader
left_in standard file (File reader) = file reader

abbrev pub is_standard : {S F : Type 0} → Input S F → Bool
is_standard (Standard reader) = true
is_standard (File reader) = false

abbrev pub IsCharacterDevice : Metadata → Type 0
IsCharacterDevice about = bit_and (metadata_mode about) 0o170000 ≡ 0o020000

-- What was found, if it can be the same as another file: of character devices not the null device. Where nothing is there, there is none.
abbrev pub SaysCompared : {E : Type 0} → Result Metadata E → Result (Option Metadata) E → Type 0
SaysCompared (Ok about) said = (said ≡ Ok (Some about)) ⊎ (IsCharacterDevice about × (said ≡ Ok None))
SaysCompared (Err why) said = (said ≡ Ok None) ⊎ (said ≡ Err why)

-- a file that is not there is made, and one that is there is not emptied by that
abbrev pub events_options : OpenOptions
events_options = with_create (with_write new_options true) true

-- the first bytes of an event file of either version
abbrev pub begins_as_events : List ℕ → Bool
begins_as_events bytes = starts_with nat_eq bytes (header One) || starts_with nat_eq bytes (header Two)

-- whether a file that holds bytes and begins so may be emptied: by a run if it is an event file, by a live run never
abbrev pub may_empty : Earlier → List ℕ → Bool
may_empty Emptied beginning = begins_as_events beginning
may_empty Refused beginning = false

-- a regular file that is not empty
abbrev pub HoldsBytes : Metadata → Type 0
HoldsBytes about = IsFile (file_type about) × (0 < metadata_len about)
