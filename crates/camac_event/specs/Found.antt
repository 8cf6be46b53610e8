-- An event that was read from a file's bytes.
use Rattle.camac_event.specs.declared.file.EventRecord.{EventRecord}
use Rattle.camac_event.specs.Spelling.{Entry}

abbrev pub entry_in : EventRecord → Entry
entry_in r = record { gl = r.gl; usage = r.usage; words = r.words }
