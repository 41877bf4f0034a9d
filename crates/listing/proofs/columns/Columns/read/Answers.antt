use Rattle.std.proofs.Common.{rules}
use Rattle.listing.proofs.TableNeeds.{readings, relleb_eight}
use Rattle.listing.proofs.columns.Columns.read.Goals as goal

pub returns-in-Relr32 : goal.returns-in-Relr32
returns-in-Relr32 c = search readings

pub returns-in-Relr64 : goal.returns-in-Relr64
returns-in-Relr64 c = search readings

pub returns-in-Apr1 : goal.returns-in-Apr1
returns-in-Apr1 c = search readings

pub returns-in-Apa1 : goal.returns-in-Apa1
returns-in-Apa1 c = search readings

pub returns-in-Relleb32 : goal.returns-in-Relleb32
returns-in-Relleb32 c = search readings

pub returns-in-Relleb64 : goal.returns-in-Relleb64
returns-in-Relleb64 c =
    relleb_eight _ _ _ _ _ (search rules) (search rules) (search rules) (search rules) c.in-Relleb64.is c.read-in-Relleb64.ensures
