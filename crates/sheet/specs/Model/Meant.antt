-- What a sheet that was read stands for.
-- Assumes nothing.
use Rattle.sheet.specs.Meaning.Decoded.{Decoded}
use Rattle.sheet.specs.Model.Where.{decoded}
use Rattle.sheet.specs.declared.layout.ReadSheet.{ReadSheet}

-- the sheet that the layout over its bytes stands for
abbrev pub meant : ReadSheet → Decoded
meant r = decoded r.bytes.now r.layout
