-- Turning a complex number by a phase, whose cosine and sine are t.c and t.s.
use Rattle.types.specs.declared.C32.{C32}
use Rattle.types.specs.declared.CosSin.{CosSin}
use Rattle.definition.specs.Floats.{◌+f◌, ◌-f◌, ◌*f◌, complex}

-- z = (y.re·c + y.im·s, y.im·c − y.re·s)
unfoldable pub derotated : C32 → CosSin → C32
derotated y t = complex (y.re *f t.c +f y.im *f t.s) (y.im *f t.c -f y.re *f t.s)

-- (v.re·c − v.im·s, v.re·s + v.im·c)
unfoldable pub rotated : C32 → CosSin → C32
rotated v t = complex (v.re *f t.c -f v.im *f t.s) (v.re *f t.s +f v.im *f t.c)
