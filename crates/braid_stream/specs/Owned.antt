-- A reader with a source of its own.
use Rattle.braid_stream.specs.declared.reading.Reading.{Reading}
use Rattle.braid_stream.specs.declared.stream_reader.StreamReader.{StreamReader}

-- the source that a reader owns
abbrev pub source_of : {S : Type 0} → StreamReader S → S
source_of owner = owner.source

-- the reader over that source
abbrev pub reader_of : {S : Type 0} → StreamReader S → Reading
reader_of owner = owner.reader
