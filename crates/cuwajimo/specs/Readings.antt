-- What the words of a line are read as.
use Rattle.std.specs.Prelude.{◌≡◌, ℕ, List, map, Some, None, Ok, Err, Option, Result, Vec, vec_items, string_bytes}
use Rattle.std.specs.declared.alloc.Global.{Global}
use Rattle.cuwajimo.specs.declared.files.ImageFile.{ImageFile}
use Rattle.cuwajimo.specs.declared.trouble.Trouble.{Trouble}
use Rattle.cuwajimo.specs.Troubles.{Blames, IfLine}
use Rattle.cuwajimo.specs.Words.{all_bytes, all_numbers}

-- The bytes of some words are read; a trouble is want of memory, or there is a word that stands for no bytes.
abbrev pub BytesRead : List (List ℕ) → Result (Vec ℕ Global) Trouble → Type 0
BytesRead words (Ok bytes) = all_bytes words ≡ Some (vec_items bytes)
BytesRead words (Err e) = IfLine e (all_bytes words ≡ None)

-- The numbers of some words are read; a trouble is want of memory, or there is a word that writes none below the limit.
abbrev pub NumbersRead : {T : Type 0} → (T → ℕ) → ℕ → List (List ℕ) → Result (Vec T Global) Trouble → Type 0
NumbersRead number limit words (Ok numbers) = all_numbers limit words ≡ Some (map number (vec_items numbers))
NumbersRead number limit words (Err e) = IfLine e (all_numbers limit words ≡ None)

-- The word names the file, which a line of that number names.
pub record NamesFile (line : ℕ) (word : Option (List ℕ)) (file : ImageFile) : Type 0 where
  pub path : word ≡ Some (string_bytes file.path)
  pub line_is : file.line ≡ line

-- A file's name is read; a trouble is want of memory, or there is no word.
abbrev pub FileRead : ℕ → Option (List ℕ) → Result ImageFile Trouble → Type 0
FileRead line word (Ok file) = NamesFile line word file
FileRead line word (Err e) = IfLine e (word ≡ None)

-- What a line of that number says is read: an answer is such; a trouble blames the line, and comes only where the line says nothing
-- of the kind.
abbrev pub Reads : {X : Type 0} → ℕ → (X → Type 0) → Result X Trouble → Type 0
Reads line Says (Ok x) = Says x
Reads {X} line Says (Err e) = Blames line e × ((x : X) → Says x → ⊥)

-- The same of what takes memory, of which there may be too little.
abbrev pub ReadsInMemory : {X : Type 0} → ℕ → (X → Type 0) → Result X Trouble → Type 0
ReadsInMemory line Says (Ok x) = Says x
ReadsInMemory {X} line Says (Err e) = Blames line e × IfLine e ((x : X) → Says x → ⊥)

-- The same of a line that may be named as another kind: none is answered exactly where it is, and a trouble comes only where it is not.
abbrev pub ReadsNamed : {X : Type 0} → ℕ → Type 0 → (X → Type 0) → Result (Option X) Trouble → Type 0
ReadsNamed line Named Says (Ok None) = Named → ⊥
ReadsNamed line Named Says (Ok (Some x)) = Says x
ReadsNamed {X} line Named Says (Err e) = Blames line e × Named × ((x : X) → Says x → ⊥)

-- The same of what takes memory.
abbrev pub ReadsNamedInMemory : {X : Type 0} → ℕ → Type 0 → (X → Type 0) → Result (Option X) Trouble → Type 0
ReadsNamedInMemory line Named Says (Ok None) = Named → ⊥
ReadsNamedInMemory line Named Says (Ok (Some x)) = Says x
ReadsNamedInMemory {X} line Named Says (Err e) = Blames line e × Named × IfLine e ((x : X) → Says x → ⊥)
