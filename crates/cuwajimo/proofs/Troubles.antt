-- A trouble with a line, and where it comes from.
use Rattle.std.proofs.Common.{ℕ}
use Rattle.cuwajimo.specs.declared.trouble.Trouble.{Trouble}
use Rattle.cuwajimo.specs.declared.trouble.Trouble.TheVariants.{Line, Script, Io, Usage, Memory}
use Rattle.cuwajimo.specs.Troubles.{Blames, IfLine}

pub blamed_for : (e : Trouble) (line : ℕ) (P : Type 0) → Blames line e → P → IfLine e P
blamed_for (Line l what) line P blames p = p
blamed_for (Script name e) line P blames p = blames
blamed_for (Io e) line P blames p = blames
blamed_for Usage line P blames p = blames
blamed_for Memory line P blames p = tt

pub if_line_weaker : (e : Trouble) (P Q : Type 0) → (P → Q) → IfLine e P → IfLine e Q
if_line_weaker (Line l what) P Q f p = f p
if_line_weaker (Script name e) P Q f p = p
if_line_weaker (Io e) P Q f p = p
if_line_weaker Usage P Q f p = p
if_line_weaker Memory P Q f p = tt
